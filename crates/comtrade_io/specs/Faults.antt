-- What an error of the system is to a tool.
use Rattle.std.specs.declared.io.ErrorKind.{ErrorKind}
use Rattle.std.specs.declared.io.ErrorKind.TheVariants as kinds
use Rattle.comtrade_io.specs.declared.fault.ToolFault.{ToolFault}
use Rattle.comtrade_io.specs.declared.fault.ToolFault.TheVariants as faults

-- `other` where it is none of these
abbrev pub fault_of : ErrorKind → ToolFault → ToolFault
fault_of kinds.NotFound other = faults.NoFile
fault_of kinds.PermissionDenied other = faults.Denied
fault_of kinds.AlreadyExists other = faults.Exists
fault_of kinds.IsADirectory other = faults.Folder
fault_of kinds.FilesystemLoop other = faults.Loop
fault_of kinds.BrokenPipe other = faults.Closed
fault_of kinds.OutOfMemory other = faults.Memory
fault_of _ other = other
