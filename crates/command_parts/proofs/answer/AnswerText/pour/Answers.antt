use Rattle.command_parts.proofs.answer.AnswerText.pour.Goals as goal

pub returns-in-Usage : goal.returns-in-Usage
returns-in-Usage g c = rw c.in-Usage.is c.put.ensures

pub returns-in-LongCnf : goal.returns-in-LongCnf
returns-in-LongCnf g c = rw c.in-LongCnf.is c.put-in-LongCnf.ensures

pub returns-in-GoodProof : goal.returns-in-GoodProof
returns-in-GoodProof g c = rw c.in-GoodProof.is c.put-in-GoodProof.ensures

pub returns-in-Summary : goal.returns-in-Summary
returns-in-Summary g c = rw c.in-Summary.is c.pour-in-Summary.ensures

pub returns-in-OtherKind : goal.returns-in-OtherKind
returns-in-OtherKind g c = rw c.in-OtherKind.is c.put-in-OtherKind.ensures

pub returns-in-NoRule : goal.returns-in-NoRule
returns-in-NoRule g c = rw c.in-NoRule.is c.put-in-NoRule.ensures

pub returns-in-NoGain : goal.returns-in-NoGain
returns-in-NoGain g c = rw c.in-NoGain.is c.put-in-NoGain.ensures
