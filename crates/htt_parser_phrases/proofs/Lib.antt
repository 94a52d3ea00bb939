mod Deepening
