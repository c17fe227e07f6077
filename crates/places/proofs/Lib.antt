pub mod ReadBack
pub mod PlaceAt
pub mod Named
