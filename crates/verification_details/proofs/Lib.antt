mod Sources
mod Subjects
