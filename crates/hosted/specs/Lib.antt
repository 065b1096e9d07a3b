pub mod Hosted
