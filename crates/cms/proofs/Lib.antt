mod Read
mod Timed
