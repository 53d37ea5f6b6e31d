use Rattle.spec_syntax.proofs.link_grammar.+read_link.Given as goal

abbrev pub decreases-read_link : goal.decreases-read_link
decreases-read_link l = l.most
