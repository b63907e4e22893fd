mod Repeating
