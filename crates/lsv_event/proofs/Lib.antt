mod Days
mod OneLines
mod Parts
mod Quiet
mod Uncontrolled
