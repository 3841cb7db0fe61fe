use Rattle.integer_laws.proofs.laws.text_alone.Goals as goal

pub returns : goal.returns
returns c = λ schema facts none fact among place value holds at. absurd (none fact.rel place holds)
