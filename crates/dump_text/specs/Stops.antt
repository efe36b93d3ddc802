-- Why a dump was not written or a line not read, as a caller sees it.
use Rattle.kdb_format.specs.declared.faults.FormatFault.{FormatFault}
use Rattle.kdb_format.specs.declared.faults.FormatFault.TheVariants as format
use Rattle.dump_text.specs.declared.stops.LineStop.{LineStop}
use Rattle.dump_text.specs.declared.stops.LineStop.TheVariants as line
use Rattle.dump_text.specs.declared.stops.WriteStop.{WriteStop}
use Rattle.dump_text.specs.declared.stops.WriteStop.TheVariants as write
use Rattle.dump_text.specs.declared.stops.DumpStop.{DumpStop}
use Rattle.dump_text.specs.declared.stops.DumpStop.TheVariants as dump

abbrev pub as_dump_stop : WriteStop → DumpStop
as_dump_stop write.WriteFault = dump.WriteFault
as_dump_stop write.MemoryOut = dump.MemoryOut

abbrev pub as_line_stop : FormatFault → LineStop
as_line_stop format.Malformed = line.Bad
as_line_stop format.MemoryOut = line.MemoryOut
