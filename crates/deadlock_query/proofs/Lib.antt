mod StuckWords
