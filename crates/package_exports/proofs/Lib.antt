pub mod Targets
pub mod KeyOrders
pub mod KeyLaws
