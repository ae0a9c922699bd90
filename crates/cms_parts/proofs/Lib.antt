mod Tagged
