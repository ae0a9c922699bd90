mod Words
mod Saying
mod Meaning
mod Completing
