-- Why reading stops, as the code says it.
use Rattle.fz_items.specs.declared.stop.Cause.{Cause}
use Rattle.fz_items.specs.declared.stop.Stop.{Stop}
use Rattle.fz_items.specs.declared.stop.Stop.TheVariants.{Refused, Memory}

abbrev pub refused : Cause → Stop
refused cause = Refused cause

abbrev pub wanting : Stop
wanting = Memory
