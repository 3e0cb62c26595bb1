-- Laws of the plan text: its lines, plans, the reader, the writer.
pub mod Spelling
pub mod Parsing
pub mod Sound
pub mod Sizes
pub mod Plans
pub mod Theorems
pub mod Counting
pub mod Passing
pub mod Verdict
pub mod Filling
pub mod Cells
pub mod Reader
pub mod Lengths
pub mod Text
pub mod Rects
pub mod Layers
pub mod Writer
