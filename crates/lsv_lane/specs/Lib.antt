pub mod Store
pub mod InnerLane
