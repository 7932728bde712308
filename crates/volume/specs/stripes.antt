pub mod StripeDue
pub mod StripeStores
pub mod UnitRows
pub mod UnitStores
pub mod WholeStripe
