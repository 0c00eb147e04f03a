mod Tunings
