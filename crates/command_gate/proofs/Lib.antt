mod LineByLine
mod Saying
mod Meaning
mod Completing
mod RunEnding
