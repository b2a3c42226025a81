pub mod Numbers
pub mod Rows
pub mod Budget
pub mod Laws
pub mod Shipped
