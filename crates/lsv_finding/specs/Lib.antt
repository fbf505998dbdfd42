pub mod Checked
pub mod Findings
