mod Hinting
