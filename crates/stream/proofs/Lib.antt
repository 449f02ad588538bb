pub mod First
pub mod OtherKind
pub mod RoundTrip
pub mod Found
