use Rattle.gno_cmd.proofs.line.write_status.Goals as goal

pub returns-in-Usage-clause-whole : goal.returns-in-Usage-clause-whole
returns-in-Usage-clause-whole g c = rw (c.in-Usage.is, ← c.format.ensures.text) c.write_about.ensures.whole

pub returns-in-ReadFault-clause-front : goal.returns-in-ReadFault-clause-front
returns-in-ReadFault-clause-front g c = rw c.in-ReadFault.is c.write_text.ensures.front

pub returns-in-ReadFault-clause-whole : goal.returns-in-ReadFault-clause-whole
returns-in-ReadFault-clause-whole g c = rw c.in-ReadFault.is c.write_text.ensures.whole

pub returns-in-WriteFault-clause-whole : goal.returns-in-WriteFault-clause-whole
returns-in-WriteFault-clause-whole g c = rw c.in-WriteFault.is c.write_text-in-WriteFault.ensures.whole

pub returns-in-StoreFault-clause-whole : goal.returns-in-StoreFault-clause-whole
returns-in-StoreFault-clause-whole g c = rw c.in-StoreFault.is c.write_text-in-StoreFault.ensures.whole

pub returns-in-Damaged-clause-whole : goal.returns-in-Damaged-clause-whole
returns-in-Damaged-clause-whole g c = rw (c.in-Damaged.is, ← c.as_slice.ensures) c.write_damaged.ensures.whole

pub returns-in-NoMemory-clause-front : goal.returns-in-NoMemory-clause-front
returns-in-NoMemory-clause-front g c = rw c.in-NoMemory.is c.write_text-in-NoMemory.ensures.front

pub returns-in-NoMemory-clause-whole : goal.returns-in-NoMemory-clause-whole
returns-in-NoMemory-clause-whole g c = rw c.in-NoMemory.is c.write_text-in-NoMemory.ensures.whole

pub returns-in-ScriptFault-clause-front : goal.returns-in-ScriptFault-clause-front
returns-in-ScriptFault-clause-front g c = rw (c.in-ScriptFault.is, ← c.format-in-ScriptFault.ensures.text) c.write_about-in-ScriptFault.ensures.front

pub returns-in-ScriptFault-clause-whole : goal.returns-in-ScriptFault-clause-whole
returns-in-ScriptFault-clause-whole g c = rw (c.in-ScriptFault.is, ← c.format-in-ScriptFault.ensures.text) c.write_about-in-ScriptFault.ensures.whole

pub returns-in-Limit-clause-whole : goal.returns-in-Limit-clause-whole
returns-in-Limit-clause-whole g c = rw (c.in-Limit.is, ← c.limit_name.ensures) c.write_about-in-Limit.ensures.whole
