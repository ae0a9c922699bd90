pub mod HexFacts
