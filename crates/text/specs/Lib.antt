-- The definitions that the contracts cite.
pub mod Decimal
pub mod Fields
pub mod Hexadecimal
pub mod Pieces
pub mod Replies
