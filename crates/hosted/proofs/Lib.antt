mod Ways
pub mod HostedLaws
