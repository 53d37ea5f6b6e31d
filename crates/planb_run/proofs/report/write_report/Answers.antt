use Rattle.std.proofs.Common.{◌∙◌}
use Rattle.planb_run.proofs.report.write_report.Goals as goal

pub returns-in-StepsSpent : goal.returns-in-StepsSpent
returns-in-StepsSpent g c =
    rw (c.in-StepsSpent.is, ← (c.as_bytes-budget.ensures.value ∙ c.format.ensures.text)) c.put_parts.ensures

pub returns-in-OutOfMemory : goal.returns-in-OutOfMemory
returns-in-OutOfMemory g c = rw c.in-OutOfMemory.is c.put_all-in-OutOfMemory.ensures

pub returns-in-ReadFault : goal.returns-in-ReadFault
returns-in-ReadFault g c = rw c.in-ReadFault.is c.put_all-in-ReadFault.ensures

pub returns-in-WriteFault : goal.returns-in-WriteFault
returns-in-WriteFault g c = rw c.in-WriteFault.is c.put_all-in-WriteFault.ensures
