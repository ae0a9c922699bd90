mod Grows
