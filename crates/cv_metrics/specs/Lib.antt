pub mod Ops
pub mod Buckets
pub mod Scans
