use Rattle.spec_reading.proofs.TermWhole.{finds_terms, gives_terms, refuses_terms, refuses_high_terms}
use Rattle.spec_reading.proofs.term_law.terms_are_read.Goals as goal

pub returns-clause-finds : goal.returns-clause-finds
returns-clause-finds c = finds_terms

pub returns-clause-gives : goal.returns-clause-gives
returns-clause-gives c = gives_terms

pub returns-clause-refuses : goal.returns-clause-refuses
returns-clause-refuses c = refuses_terms

pub returns-clause-too_high : goal.returns-clause-too_high
returns-clause-too_high c = refuses_high_terms
