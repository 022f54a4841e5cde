-- Lemmas that several proofs share.
pub mod Cutting
pub mod Figures
pub mod Nibbles
pub mod Numbered
