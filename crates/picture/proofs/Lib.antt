-- Laws of a picture.
pub mod Signs
pub mod Fills
pub mod Frames
pub mod Hatchings
pub mod Shapes
pub mod Layers
pub mod Marks
pub mod Lengths
pub mod Runs
pub mod Plain
pub mod Markup
pub mod Formed
pub mod Whole
pub mod Theorems
pub mod Cases
