mod Apart
mod Back
mod Barely
mod Crossing
