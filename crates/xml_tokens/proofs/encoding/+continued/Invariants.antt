use Rattle.xml_tokens.proofs.encoding.+continued.Given as goal

abbrev pub decreases-continued : goal.decreases-continued
decreases-continued l = l.more
