pub mod Grammar
pub mod Roles
pub mod Printed
pub mod Form
