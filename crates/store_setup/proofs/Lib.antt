pub mod Digests
pub mod RoundTrip
pub mod SameSetups
