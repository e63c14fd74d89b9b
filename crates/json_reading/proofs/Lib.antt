pub mod BorrowedData
pub mod JsonBytes
pub mod LastMembers
pub mod ListedMembers
pub mod MemberReadings
pub mod Numberless
pub mod Readings
pub mod RisingNames
