pub mod RenumberedLaws
pub mod PlaceLemmas
pub mod IdLaws
pub mod LineLemmas
