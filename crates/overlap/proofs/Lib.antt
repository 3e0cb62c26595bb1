pub mod Reaches
pub mod Strips
pub mod Places
pub mod Sums
pub mod Heights
pub mod Covering
pub mod Plans
