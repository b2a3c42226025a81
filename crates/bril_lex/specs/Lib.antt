pub mod Cut
pub mod Laws
pub mod Lexeme
pub mod Piece
pub mod Printed
pub mod Scan
pub mod Spelling
