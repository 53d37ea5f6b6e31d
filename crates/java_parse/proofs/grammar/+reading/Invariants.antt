use Rattle.java_parse.proofs.grammar.+reading.Given as goal

abbrev pub decreases-reading : goal.decreases-reading
decreases-reading l = l.most
