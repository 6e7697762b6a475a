mod Scoping
