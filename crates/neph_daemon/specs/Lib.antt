pub mod StageTwo
