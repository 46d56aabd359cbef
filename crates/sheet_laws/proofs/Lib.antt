pub mod RoundTrip
pub mod Examples
