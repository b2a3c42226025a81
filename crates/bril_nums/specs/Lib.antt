pub mod Arith
pub mod Decimal
