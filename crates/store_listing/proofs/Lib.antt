-- What the proofs of several functions share.
pub mod ListingText
pub mod ListingLaws
pub mod ListingTests
pub mod CardListing
