pub mod EmptyPieces
