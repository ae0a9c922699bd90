mod Completing
mod Saying
mod RunEnding
