mod Alike
mod Seen
