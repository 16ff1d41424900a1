use Rattle.lockrun_play.proofs.answer.write_answer.Goals as goal

-- Its own text tells of a release.
pub returns-in-GivenBack : goal.returns-in-GivenBack
returns-in-GivenBack g c = rw c.in-GivenBack.is c.write_line-in-GivenBack.ensures
