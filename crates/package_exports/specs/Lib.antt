pub mod Exported
pub mod ExportedView
pub mod Laws
