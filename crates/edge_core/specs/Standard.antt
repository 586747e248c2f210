-- What clauses read of the adapters over std's readers and writers.
use Rattle.std.specs.Prelude.{ℕ}
use Rattle.edge_core.specs.declared.standard.StdSource.{StdSource}
use Rattle.edge_core.specs.declared.standard.StdSink.{StdSink}

-- the reader that a source reads
abbrev pub inner_reader : {R : Type 0} → StdSource R → R
inner_reader source = source.reader

-- how many reads failed
abbrev pub read_faults : {R : Type 0} → StdSource R → ℕ
read_faults source = source.faults

-- the writer that a sink writes to
abbrev pub inner_writer : {W : Type 0} → StdSink W → W
inner_writer sink = sink.writer

-- how many writes failed
abbrev pub write_faults : {W : Type 0} → StdSink W → ℕ
write_faults sink = sink.faults
