pub mod Shrinking
pub mod StepsOf
pub mod Collecting
pub mod ReadsBack
pub mod PartsBack
pub mod HeaderBack
pub mod StepsBack
pub mod RoundTrip
