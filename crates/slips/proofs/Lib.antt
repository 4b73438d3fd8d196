pub mod Fields
pub mod ToldKinds
