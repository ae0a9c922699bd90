mod Overlaid
