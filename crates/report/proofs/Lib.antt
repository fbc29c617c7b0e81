-- What is written, line by line; its numbers; what is found in a file; that no more of it need be read. Examples, computed.
mod Lines
mod Numbers
mod Findings
mod Limits
mod Examples
